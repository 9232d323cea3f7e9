pub mod GiveLemmas
pub mod StepLemmas
pub mod ObjectLemmas
pub mod ApplyLemmas
