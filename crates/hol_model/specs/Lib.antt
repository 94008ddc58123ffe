pub mod Infinity
pub mod Leaves
pub mod Universe
pub mod WellTyped
pub mod Names
pub mod Pairs
pub mod LastRule
