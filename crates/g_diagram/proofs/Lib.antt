pub mod LineLemmas
pub mod NodeTotals
pub mod Trees
mod Examples
