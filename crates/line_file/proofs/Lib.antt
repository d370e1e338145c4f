pub mod CutLemmas
pub mod WalkLemmas
pub mod RefusalLaws
pub mod GrammarLaws
pub mod PieceLaws
pub mod EarlyLaws
pub mod SourceLemmas
