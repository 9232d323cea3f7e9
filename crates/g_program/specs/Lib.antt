pub mod Kept
pub mod Numbers
pub mod Pools
pub mod Queues
pub mod Tables
