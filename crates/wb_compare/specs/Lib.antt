pub mod Limits
pub mod Reductions
pub mod Compare
pub mod Terms
pub mod Same
pub mod Check
pub mod Endings
