pub mod Sectors
pub mod Steps
