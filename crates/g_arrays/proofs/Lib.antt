pub mod ActLemmas
pub mod Conversions
pub mod LaneLemmas
pub mod Loops
pub mod RowLengths
