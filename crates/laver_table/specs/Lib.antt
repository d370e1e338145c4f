pub mod Product
pub mod Table
pub mod Period
pub mod Form
pub mod Levels
pub mod TableText
