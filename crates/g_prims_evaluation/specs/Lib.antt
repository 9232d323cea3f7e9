pub mod Accumulated
pub mod Conditions
