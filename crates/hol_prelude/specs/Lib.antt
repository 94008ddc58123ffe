pub mod Statements
pub mod Prelude
