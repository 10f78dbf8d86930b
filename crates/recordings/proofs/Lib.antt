pub mod Piece
pub mod Close
pub mod Closing
pub mod Uninterrupted
pub mod Whole
pub mod SameRequest
pub mod Kept
pub mod Refused
