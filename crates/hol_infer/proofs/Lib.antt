pub mod Naming
pub mod Sizes
pub mod Readings
pub mod Resolved
pub mod Standing
pub mod StandingLaws
pub mod Unique
pub mod Marks
