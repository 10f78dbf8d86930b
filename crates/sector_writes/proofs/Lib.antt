pub mod Links
pub mod Runs
