pub mod Clear
pub mod Sectors
pub mod Longer
pub mod Blocks
pub mod PieceResult
