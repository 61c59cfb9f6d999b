pub mod PieceValues
pub mod Pieces
pub mod Quiet
