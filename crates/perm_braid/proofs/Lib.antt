pub mod ArrangementFacts
pub mod PlaceLemmas
pub mod SwapLemmas
pub mod SortingLemmas
pub mod SortingWordLemmas
pub mod SimpleWordLemmas
pub mod ArrangedWordLemmas
pub mod MoveLemmas
mod EntryLemmas
mod EntryPlaceLemmas
mod ScanLemmas
mod PassingLemmas
mod GreedyPairLemmas
