pub mod FreeWords
pub mod FreeText
