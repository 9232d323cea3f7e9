pub mod Meeting
pub mod Ends
pub mod Naming
mod Examples
