pub mod Compute
pub mod Words
pub mod Rows
pub mod RunLemmas
pub mod RestLemmas
pub mod LimitLemmas
