pub mod Sight
pub mod Places
pub mod Resolution
pub mod Faults
pub mod Laws
pub mod Heads
pub mod Worked
