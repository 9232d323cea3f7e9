pub mod Gives
pub mod TypesGiven
pub mod BordersGiven
pub mod LinesSpelled
pub mod NodesGiven
pub mod ListingGiven
