pub mod Instruction
pub mod Value
pub mod Machine
pub mod Forward
pub mod Listing
pub mod View
pub mod Laws
pub mod Rows
