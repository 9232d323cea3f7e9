pub mod Bodies
pub mod Firings
pub mod Starts
