pub mod Lines
pub mod Words
pub mod Text
pub mod Operands
pub mod Ports
pub mod Leads
pub mod Sizes
