pub mod OneSplit
pub mod Planned
pub mod Counted
pub mod Erased
pub mod Larger
pub mod Named
pub mod Accepted
pub mod Worked
