pub mod Within
pub mod Through
pub mod Configuration
pub mod Inversion
pub mod Grows
pub mod Laws
pub mod Examples
