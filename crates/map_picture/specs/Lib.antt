-- A picture with its map of stale colour: made, and shown as RGBA.
pub mod Made
pub mod Shown
