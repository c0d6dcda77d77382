pub mod Rows
pub mod KindNumbers
pub mod PrintedPatterns
pub mod PatternParts
pub mod Hexadecimal
pub mod Spelled
pub mod Faults
