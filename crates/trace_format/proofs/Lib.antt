pub mod TraceLemmas
pub mod FieldLemmas
pub mod TermFieldLemmas
pub mod KeywordLaws
pub mod LineLaws
pub mod TraceLaws
pub mod TraceFacts
