pub mod Cuts
pub mod Arguments
pub mod Stops
pub mod Runs
