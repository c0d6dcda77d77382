pub mod Judging
pub mod Runnable
pub mod Worked
pub mod Growing
pub mod Refused
