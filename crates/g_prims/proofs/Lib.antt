pub mod Breaks
pub mod Bundles
pub mod References
