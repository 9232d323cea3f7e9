pub mod Agreed
pub mod Agreeing
pub mod Founded
pub mod Joined
pub mod LiteralLemmas
pub mod Steps
pub mod Local
pub mod NodeRoles
pub mod Names
pub mod Nesting
pub mod Only
pub mod Ready
pub mod Roles
pub mod Unique
pub mod Walked
mod Listings
mod Straight
mod Structures
mod Selecting
