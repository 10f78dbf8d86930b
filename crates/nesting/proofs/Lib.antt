pub mod Table
pub mod Passed
pub mod Results
pub mod Others
