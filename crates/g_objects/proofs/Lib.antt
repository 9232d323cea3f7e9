pub mod Steps
pub mod Choices
pub mod Panels
pub mod Queues
pub mod Cells
pub mod Pools
pub mod Placed
