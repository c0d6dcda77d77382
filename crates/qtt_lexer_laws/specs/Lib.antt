pub mod Characters
pub mod Cuts
pub mod Flaws
pub mod Laws
pub mod Examples
