pub mod Lines
pub mod CalleeLemmas
pub mod Optional
pub mod BranchLemmas
pub mod Among
pub mod Cases
pub mod Stands
mod Examples
