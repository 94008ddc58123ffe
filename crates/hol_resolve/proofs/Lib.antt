pub mod Over
pub mod Applied
pub mod Measured
pub mod Trying
pub mod Suiting
pub mod Standing
