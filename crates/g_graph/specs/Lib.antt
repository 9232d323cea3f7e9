pub mod Graph
pub mod Hints
