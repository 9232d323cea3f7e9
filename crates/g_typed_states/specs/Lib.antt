pub mod Places
pub mod Bodies
pub mod Lines
pub mod Accepted
pub mod Typed
pub mod Laws
