-- What the row writers ask.
-- Every second place of a row.
pub mod Fits
pub mod Turns
