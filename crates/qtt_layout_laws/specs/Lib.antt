pub mod Words
pub mod Blocks
pub mod Counts
pub mod Texts
pub mod Openings
pub mod Laws
pub mod Examples
