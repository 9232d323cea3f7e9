pub mod Words
pub mod Types
pub mod Literals
pub mod Borders
pub mod Nodes
pub mod Listing
