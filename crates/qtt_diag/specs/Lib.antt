pub mod Kept
pub mod Patterns
pub mod Messages
pub mod Fault
pub mod Writing
pub mod Laws
pub mod Rows
