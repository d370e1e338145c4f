mod TraceLengths
mod AcceptedTraces
mod ReductionLemmas
pub mod CompareLemmas
mod TermsLemmas
mod CheckLemmas
mod SameLemmas
