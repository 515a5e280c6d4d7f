pub mod Kept
pub mod NextWord
pub mod PathWords
pub mod Names
