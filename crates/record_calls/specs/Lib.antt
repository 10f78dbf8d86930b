pub mod Calls
pub mod RecordedBytes
