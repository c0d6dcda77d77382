pub mod Generated
pub mod Canonical
pub mod Seen
pub mod Laws
pub mod Rows
