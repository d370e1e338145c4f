pub mod Bracket
