pub mod Branches
pub mod Calls
pub mod Kept
pub mod Loops
pub mod PanelLemmas
pub mod Sweeping
