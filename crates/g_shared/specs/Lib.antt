pub mod Outcome
pub mod Tried
pub mod Panels
pub mod Queues
pub mod Cells
pub mod Pools
pub mod Codes
