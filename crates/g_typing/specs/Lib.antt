pub mod Types
pub mod Rows
pub mod Typing
pub mod Literals
pub mod Assigned
pub mod Selected
pub mod Breaks
