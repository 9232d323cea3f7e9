pub mod Kept
pub mod Numbers
pub mod Places
pub mod Sources
pub mod Tables
pub mod Types
