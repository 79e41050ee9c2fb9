-- The map of stale colour: its words.
pub mod Map
