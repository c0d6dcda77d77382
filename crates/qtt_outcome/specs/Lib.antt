pub mod Stop
pub mod Outcome
pub mod Headline
pub mod Completeness
pub mod Rows
