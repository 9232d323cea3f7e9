pub mod Tunnels
pub mod Seen
pub mod Sides
pub mod Callees
pub mod Branches
pub mod Standing
