pub mod Cleared
pub mod Listed
pub mod Meaning
pub mod ErasedMap
pub mod EraseManyCut
pub mod Refused
pub mod Names
