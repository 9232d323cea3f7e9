pub mod Views
pub mod Settings
pub mod GivenViews
pub mod Texts
pub mod Ready
pub mod Answer
pub mod Call
