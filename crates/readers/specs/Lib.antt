pub mod Positions
pub mod Pieces
pub mod Opening
pub mod Readers
pub mod ReadInPieces
