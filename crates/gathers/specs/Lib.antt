pub mod Moving
pub mod Call
