pub mod FreeWordLemmas
pub mod DeletionLemmas
pub mod EndLemmas
pub mod TextLemmas
pub mod FreeWordFacts
