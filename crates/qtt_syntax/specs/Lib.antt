pub mod Tree
pub mod View
pub mod Words
pub mod Printing
pub mod PrintingExamples
pub mod Writing
