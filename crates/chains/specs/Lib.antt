pub mod File
pub mod Chain
pub mod Whole
