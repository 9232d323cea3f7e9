pub mod Sum
pub mod Locals
pub mod Loops
pub mod Branches
pub mod InPlace
pub mod Queues
pub mod References
pub mod Calls
