pub mod Laws
pub mod Live
pub mod Loops
pub mod Exact
