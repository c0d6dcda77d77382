pub mod Closed
pub mod Programs
pub mod Worked
pub mod Refused
