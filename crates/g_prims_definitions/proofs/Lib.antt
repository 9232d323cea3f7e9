pub mod Beginnings
pub mod BreakingOff
pub mod Examples
pub mod Folds
pub mod RowBeginnings
pub mod RowExamples
pub mod RowLemmas
pub mod Sames
