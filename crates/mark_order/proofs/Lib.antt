pub mod Turned
pub mod Found
pub mod Pairs
pub mod RenameBack
pub mod Runs
pub mod Layer
pub mod MarkOrder
