-- What a function answers for many jobs.
pub mod Answered
