pub mod Reading
pub mod Resolving
pub mod NamesView
pub mod Standing
