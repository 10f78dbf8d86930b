pub mod Chained
pub mod Numbers
pub mod Whole
pub mod Planned
