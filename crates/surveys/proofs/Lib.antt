pub mod Filter
pub mod Union
pub mod Pass
