pub mod Survey
pub mod Filter
pub mod Steps
