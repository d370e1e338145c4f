pub mod ActionLemmas
pub mod RelationLemmas
pub mod FrontLemmas
pub mod ImageLemmas
pub mod LarueLemmas
pub mod ExclusionLemmas
pub mod ActionFacts
