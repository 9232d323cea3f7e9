pub mod Panels
pub mod Sources
