pub mod FirstBad
pub mod Laws
pub mod Rows
