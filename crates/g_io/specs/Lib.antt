pub mod Causes
pub mod MadeWith
pub mod Reading
pub mod Memory
