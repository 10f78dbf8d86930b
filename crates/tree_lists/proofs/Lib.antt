pub mod Filled
pub mod Named
pub mod Results
pub mod Refused
