pub mod Waiting
pub mod Removing
pub mod Turning
