pub mod Ends
pub mod Whole
pub mod Planned
