pub mod Texts
pub mod Handle
pub mod Budget
pub mod Mismatch
