-- The laws of the maps: start at Fed.antt and Pairs.antt.
pub mod Halves
pub mod Exists
pub mod Fed
pub mod Exact
pub mod Spots
pub mod Pairs
