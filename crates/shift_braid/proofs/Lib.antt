pub mod BracketLemmas
pub mod BracketFacts
