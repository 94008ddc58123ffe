pub mod Equation
pub mod Formula
pub mod Making
pub mod Constants
pub mod Prelude
pub mod Written
pub mod Bijections
