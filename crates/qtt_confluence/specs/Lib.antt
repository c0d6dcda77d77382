pub mod Injective
pub mod Heads
pub mod Standard
pub mod Comparison
pub mod Examples
pub mod Laws
pub mod Lists
