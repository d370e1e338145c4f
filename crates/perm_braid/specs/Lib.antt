pub mod Arrangements
pub mod SimpleWords
pub mod GreedyPairs
