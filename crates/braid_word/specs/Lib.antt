pub mod Words
pub mod Equivalence
pub mod Order
pub mod Sign
pub mod NumberNotation
pub mod LetterNotation
pub mod Notation
