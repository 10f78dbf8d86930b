pub mod Slot
pub mod Tracks
pub mod Rows
