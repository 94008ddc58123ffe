pub mod Table
pub mod Refusal
pub mod RegistryView
pub mod Again
pub mod Promise
