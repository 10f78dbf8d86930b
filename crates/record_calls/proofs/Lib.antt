pub mod RecordedBytes
pub mod Refused
pub mod Called
