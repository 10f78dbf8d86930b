pub mod Index
pub mod Seek
pub mod EraseEach
pub mod Whole
