pub mod Lists
pub mod Trees
pub mod EraseMany
