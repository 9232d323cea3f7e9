pub mod Readers
pub mod Lines
pub mod Loops
pub mod Cases
pub mod Bodies
