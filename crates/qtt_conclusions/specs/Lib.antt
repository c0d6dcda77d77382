pub mod NormalForms
pub mod Conclusions
pub mod Alike
pub mod Examples
pub mod Laws
