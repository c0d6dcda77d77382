-- Lemmas on the names of a module.
pub mod Steps
pub mod Parts
pub mod Looking
pub mod Dots
pub mod Shapes
pub mod Holes
pub mod Passing
pub mod Members
pub mod Owning
