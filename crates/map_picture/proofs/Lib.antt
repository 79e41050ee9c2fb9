-- A picture with its map of stale colour: its numbers and outcomes, and what is counted.
pub mod Numbers
pub mod Stale
pub mod ShownEnds
