pub mod ValueLemmas
pub mod TypedValues
