pub mod Normal
pub mod Act
pub mod GreatestDivisor
pub mod Bench
pub mod Benching
