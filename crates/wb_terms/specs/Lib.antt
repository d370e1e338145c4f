pub mod Eval
pub mod Value
pub mod Listed
pub mod Expand
pub mod Derive
pub mod Laver
pub mod Row
