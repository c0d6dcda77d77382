pub mod Reading
pub mod Loading
pub mod Order
pub mod Answer
pub mod Laws
pub mod Rows
