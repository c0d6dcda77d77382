pub mod Names
pub mod Printing
pub mod Writing
pub mod Rows
