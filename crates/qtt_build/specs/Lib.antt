pub mod Built
pub mod Build
pub mod Judged
pub mod Parts
pub mod Laws
pub mod Rows
pub mod Answer
