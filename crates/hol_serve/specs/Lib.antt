pub mod Settings
pub mod WordsEnding
pub mod Begun
pub mod BegunView
