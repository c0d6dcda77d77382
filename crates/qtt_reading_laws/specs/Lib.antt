pub mod Examples
pub mod FirstFault
pub mod Places
pub mod Printed
pub mod Standing
