pub mod Order
pub mod Answers
