pub mod View
pub mod Check
pub mod Accepted
pub mod Given
pub mod Behind
pub mod Release
