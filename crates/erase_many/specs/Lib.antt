pub mod EraseMany
pub mod EraseManyCut
pub mod ErasedMap
