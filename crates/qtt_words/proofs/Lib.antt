pub mod Rows
mod Arguments
mod Words
mod Standing
mod Turns
mod Joined
mod Lines
mod Alike
