pub mod Sorting
pub mod Asked
pub mod Requested
pub mod Clap
pub mod Laws
pub mod Rows
