pub mod Pieces
pub mod Halting
pub mod Rows
