pub mod Clashes
pub mod Taken
