pub mod Names
pub mod Values
pub mod Lengths
pub mod Named
pub mod Trees
pub mod Modules
