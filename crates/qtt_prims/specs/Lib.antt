pub mod PrimNames
pub mod Apply
pub mod Lines
pub mod Tapes
pub mod Examples
