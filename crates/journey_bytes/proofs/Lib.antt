pub mod Left
pub mod Reading
pub mod Got
pub mod Journey
pub mod Recorded
