-- What the apply calls do to the map of stale colour: start at Laws.antt, for a caller; Blocks.antt has what a view takes of a block.
pub mod Blocks
pub mod Boxes
pub mod Number
pub mod Ends
pub mod Laws
pub mod Worked
