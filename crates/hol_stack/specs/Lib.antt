pub mod StackValue
pub mod Codes
pub mod Calls
pub mod Sound
