pub mod Known
pub mod Calls
pub mod Panels
pub mod Gaps
