pub mod Divisors
pub mod NormalWords
pub mod Rounds
pub mod Faults
