pub mod Needs
pub mod Replays
pub mod Runs
pub mod Scans
