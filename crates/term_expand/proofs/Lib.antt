pub mod ExpandLemmas
pub mod MemoLemmas
pub mod WorkLemmas
pub mod ExpansionFacts
pub mod LimitFacts
