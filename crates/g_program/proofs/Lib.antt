pub mod NumberLemmas
pub mod QueueLemmas
pub mod TableLemmas
