pub mod Turns
pub mod Achieving
pub mod Histories
pub mod Elements
pub mod Exact
pub mod Within
