pub mod PlaceLemmas
pub mod FitLemmas
