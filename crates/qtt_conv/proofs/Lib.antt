pub mod Literals
pub mod Plugging
pub mod Contracting
pub mod Stepping
pub mod Outlines
pub mod Parts
pub mod Leading
pub mod Stacking
