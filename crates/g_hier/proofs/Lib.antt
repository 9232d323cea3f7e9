pub mod Numbers
pub mod Calls
pub mod SettlingSteps
pub mod SettlingEnds
pub mod Vertices
pub mod Unique
pub mod CallsBack
pub mod WalkBack
pub mod HeldCalls
pub mod Walks
pub mod Names
pub mod Reached
pub mod Known
mod Examples
