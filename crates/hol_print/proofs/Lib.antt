pub mod Types
pub mod Shapes
pub mod Fewest
pub mod Primes
pub mod Places
pub mod InOrder
