pub mod Crossing
pub mod Kept
pub mod Counts
pub mod Places
