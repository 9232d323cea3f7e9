pub mod Refusal
pub mod Results
