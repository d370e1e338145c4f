pub mod Braids
pub mod Values
pub mod Memos
