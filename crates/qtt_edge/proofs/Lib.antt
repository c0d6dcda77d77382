pub mod FlagLemmas
pub mod LineLemmas
pub mod Plans
pub mod SourceLemmas
pub mod TapeLemmas
