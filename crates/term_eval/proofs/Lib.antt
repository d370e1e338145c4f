pub mod BraidLemmas
pub mod PlacedLemmas
pub mod ValueLemmas
pub mod MemoLemmas
pub mod BraidFacts
