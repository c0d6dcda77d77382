pub mod Lexing
pub mod Stages
pub mod Names
pub mod Resolving
pub mod Items
