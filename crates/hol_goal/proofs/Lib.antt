pub mod NameParts
pub mod NamePlaces
pub mod Testing
