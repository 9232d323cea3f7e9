pub mod OwnLines
pub mod Wires
