pub mod Parts
pub mod Productions
pub mod Items
pub mod Targets
pub mod Signatures
pub mod Judged
pub mod Forgotten
