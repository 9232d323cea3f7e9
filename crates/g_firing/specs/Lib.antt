pub mod Enters
pub mod Firings
pub mod Names
pub mod Plans
