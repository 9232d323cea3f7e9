pub mod Growing
pub mod Inside
pub mod KeyLemmas
pub mod Lines
pub mod NumberLemmas
pub mod PlaceLemmas
pub mod SourceLemmas
