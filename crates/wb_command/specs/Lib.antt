pub mod Args
pub mod Faults
pub mod Inputs
pub mod Reading
pub mod Answers
pub mod Refusals
pub mod TermInputs
pub mod Meaning
