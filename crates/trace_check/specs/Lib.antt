pub mod Accepted
pub mod States
pub mod Checking
pub mod Keeping
pub mod Presents
pub mod FirstRefusal
