pub mod Kinds
pub mod Refusal
pub mod View
pub mod Asks
pub mod Judged
pub mod Report
