pub mod Again
pub mod Tables
