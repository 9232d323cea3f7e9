pub mod Found
pub mod Bipartite
pub mod NumberLemmas
pub mod EdgeLemmas
pub mod Faithful
pub mod Standing
pub mod Turning
pub mod Cycling
pub mod Codings
mod Examples
