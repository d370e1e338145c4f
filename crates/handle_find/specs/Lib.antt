pub mod Handles
pub mod Scans
pub mod LetterRuns
