pub mod Call
pub mod Refused
pub mod Steps
