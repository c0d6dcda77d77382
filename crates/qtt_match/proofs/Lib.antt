mod Components
pub mod Least
mod Rows
