pub mod Registering
pub mod Once
