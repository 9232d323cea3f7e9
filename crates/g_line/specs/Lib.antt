pub mod Forms
pub mod Usage
pub mod Reading
