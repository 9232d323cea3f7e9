pub mod Branching
mod Examples
pub mod FeedLemmas
pub mod FormLemmas
pub mod GivenNames
pub mod InferLemmas
pub mod Outputs
pub mod PlaceLemmas
pub mod ReadLemmas
pub mod WalkLemmas
