pub mod Expansions
pub mod Requests
pub mod Outcomes
pub mod Memos
