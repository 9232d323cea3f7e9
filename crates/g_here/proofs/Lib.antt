pub mod LatestLemmas
