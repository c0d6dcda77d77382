pub mod Constructors
pub mod Match
pub mod View
pub mod Laws
pub mod Programs
pub mod Rows
