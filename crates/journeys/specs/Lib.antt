pub mod Ledger
pub mod Entered
pub mod Journey
pub mod Answers
