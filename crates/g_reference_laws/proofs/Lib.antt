pub mod Held
pub mod Plain
pub mod PlainLiterals
pub mod Outputs
mod Examples
