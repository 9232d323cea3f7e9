pub mod Examples
pub mod LiveBorders
pub mod LiveListing
pub mod LiveLiterals
pub mod LiveNodes
pub mod LiveTypes
