pub mod Closing
pub mod Steps
