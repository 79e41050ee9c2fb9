-- What a part of a row reads, and the loops over a row's columns.
-- The laws of every second place.
pub mod Sources
pub mod Columns
pub mod Turns
pub mod NewOdds
