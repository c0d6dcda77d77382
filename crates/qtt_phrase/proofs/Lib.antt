pub mod Chained
pub mod Exact
pub mod Runs
pub mod Forms
pub mod Deeper
pub mod Whole
