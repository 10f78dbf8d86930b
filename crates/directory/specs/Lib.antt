pub mod Places
pub mod Directory
pub mod Find
