mod Levels
mod Shapes
mod NumberRows
mod ArrayRows
mod ClusterRows
pub mod RowOutputs
pub mod Counts
pub mod SortOrder
mod Coercing
mod SameValues
