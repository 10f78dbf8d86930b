pub mod Fours
pub mod Raising
pub mod Counting
pub mod Kept
