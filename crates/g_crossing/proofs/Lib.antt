pub mod KeptLemmas
pub mod InsideLemmas
pub mod OutsideLemmas
pub mod CountLemmas
