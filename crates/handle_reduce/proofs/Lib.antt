pub mod RunLemmas
mod KeptByRuns
pub mod SignOfReduced
pub mod RunEquivalence
pub mod SeekLemmas
pub mod ReducerLemmas
pub mod RunFacts
