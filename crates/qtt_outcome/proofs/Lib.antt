pub mod Answers
mod Headline
mod Completeness
mod Generated
mod Rows
