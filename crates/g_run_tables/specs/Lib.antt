pub mod Told
pub mod Types
