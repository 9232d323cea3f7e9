pub mod Given
pub mod Steps
pub mod Reads
pub mod Gives
pub mod Answer
pub mod Feeding
pub mod Walking
pub mod Inferred
