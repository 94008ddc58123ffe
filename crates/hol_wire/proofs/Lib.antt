pub mod Literals
pub mod Floats
pub mod Said
pub mod Apart
