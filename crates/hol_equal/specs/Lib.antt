pub mod Rules
pub mod Refusals
pub mod Applied
pub mod Unrefused
pub mod Hypotheses
