-- What the apply calls do to the map of stale colour: block by block, as boxes, and how the calls end.
pub mod Blocks
pub mod Boxes
pub mod Calls
