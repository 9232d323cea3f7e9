pub mod TurnLemmas
pub mod RequestLemmas
pub mod KindLemmas
pub mod FitLemmas
pub mod BeginLemmas
