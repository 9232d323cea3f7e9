pub mod Held
pub mod Searched
