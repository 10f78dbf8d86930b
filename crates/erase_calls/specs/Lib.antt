pub mod Index
pub mod Erasing
