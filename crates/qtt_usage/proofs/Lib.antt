pub mod Entries
pub mod Mults
pub mod UsageLemmas
