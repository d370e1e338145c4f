pub mod Verdicts
pub mod Said
pub mod TraceText
pub mod TraceLines
