pub mod Gives
pub mod Lacks
pub mod Levels
pub mod Refusals
