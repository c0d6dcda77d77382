pub mod NormalForms
pub mod Heads
pub mod Forms
pub mod Alike
pub mod Judgement
pub mod Examples
