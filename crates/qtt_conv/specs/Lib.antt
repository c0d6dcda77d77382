pub mod Frames
pub mod Spines
pub mod Pairs
pub mod Stacks
