pub mod Names
pub mod Wires
