pub mod Pieces
pub mod Lists
pub mod Parts
pub mod Values
pub mod Text
pub mod OneReading
