pub mod Controls
pub mod Inputs
pub mod Outputs
