mod EvalLemmas
mod ValueLemmas
mod ListingLemmas
mod ExpandLemmas
mod LaverCommandLemmas
mod LimitFacts
