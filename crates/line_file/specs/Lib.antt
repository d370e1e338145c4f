pub mod Formats
pub mod FirstRefusal
pub mod Pieces
pub mod Grammars
pub mod Keeping
pub mod CheckerView
pub mod Sources
