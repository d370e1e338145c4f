pub mod TextLemmas
pub mod InputLemmas
mod ReadingLemmas
mod ArgsLemmas
pub mod TaskLemmas
pub mod TermInputLemmas
mod LimitFacts
