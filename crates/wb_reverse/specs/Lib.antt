pub mod Reverse
pub mod ReverseCheck
