pub mod Crash
pub mod Demand3
pub mod EraseManyLaws
