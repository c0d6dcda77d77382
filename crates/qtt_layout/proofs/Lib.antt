pub mod Balance
pub mod Closing
pub mod Laying
