pub mod Advance
pub mod Effects
pub mod Structures
pub mod Needs
pub mod Turns
pub mod Requests
pub mod Kinds
pub mod Laws
