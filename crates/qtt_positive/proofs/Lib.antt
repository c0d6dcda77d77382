pub mod Decided
pub mod Occurs
mod Rows
