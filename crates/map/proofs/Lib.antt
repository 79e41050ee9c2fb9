-- The map of stale colour: the laws of its sizes, of its writers and of its counts, and how a call that is lent it ends.
pub mod Sizes
pub mod Turned
pub mod TurnedParts
pub mod BoxRows
pub mod StaleCounts
pub mod Joined
