pub mod Callable
pub mod Breaking
