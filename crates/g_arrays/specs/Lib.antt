pub mod Acting
pub mod Lanes
