pub mod Reduced
pub mod Patterns
pub mod Declared
