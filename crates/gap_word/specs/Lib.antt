pub mod Gap
pub mod Block
pub mod Parts
