pub mod Lanes
pub mod Pieces
