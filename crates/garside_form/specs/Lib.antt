pub mod NormalForms
pub mod FactorLists
pub mod NormalText
