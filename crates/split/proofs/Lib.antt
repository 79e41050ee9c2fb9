-- The laws of a split: start at Ends.antt; those of its number are in Exactly.antt.
pub mod Calls
pub mod Ends
pub mod Exactly
pub mod Short
pub mod Before
