pub mod Tree
pub mod Beneath
