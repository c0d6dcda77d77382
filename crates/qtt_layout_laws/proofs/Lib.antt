pub mod Machine
pub mod RoleFacts
pub mod Counted
pub mod Agreement
pub mod Existence
pub mod Ending
pub mod Answering
pub mod Openings
