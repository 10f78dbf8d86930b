pub mod Listing
pub mod Named
pub mod Starting
pub mod Reading
pub mod Views
pub mod Body
pub mod Refused
pub mod Spelling
