-- How far a colour can be off: start at Calls.antt.
pub mod Blocks
pub mod Planes
pub mod Calls
pub mod Reached
pub mod Channels
