pub mod Bounds
pub mod Replies
pub mod Reading
pub mod Reports
pub mod Trees
pub mod EraseMany
pub mod Records
