pub mod Recording
pub mod Closed
pub mod Record
pub mod Refused
pub mod Calls
