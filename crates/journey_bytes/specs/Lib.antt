pub mod Bytes
pub mod Got
