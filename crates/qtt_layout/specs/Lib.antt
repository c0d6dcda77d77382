pub mod Marks
pub mod Rules
pub mod Written
pub mod Between
pub mod Answer
pub mod Examples
pub mod Laws
