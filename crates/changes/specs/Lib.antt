pub mod Marks
pub mod ChangeCalls
