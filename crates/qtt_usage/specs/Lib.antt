pub mod Mult
pub mod Usage
pub mod Uses
