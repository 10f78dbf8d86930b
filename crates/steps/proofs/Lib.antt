pub mod Sectors
pub mod Steps
pub mod Swap
