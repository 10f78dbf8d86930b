pub mod Order
pub mod Rows
pub mod Accepted
pub mod View
pub mod Examined
pub mod Behind
pub mod Release
