pub mod Sketch
pub mod Spelled
pub mod Unplaced
