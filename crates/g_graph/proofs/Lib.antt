pub mod Search
pub mod EdgeLemmas
pub mod Shows
pub mod Falling
pub mod Telling
