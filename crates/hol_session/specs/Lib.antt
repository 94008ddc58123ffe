pub mod Lines
pub mod Session
pub mod Theorems
pub mod Machine
pub mod Served
pub mod Ending
pub mod Origins
