pub mod NameLemmas
pub mod Steps
pub mod DiagramLemmas
pub mod QueueLemmas
pub mod RepeatLemmas
pub mod ArityLemmas
pub mod ClashLemmas
mod Examples
