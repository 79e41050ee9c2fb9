-- Where a row of the main view reads, and what the writers of a row ask of their callers.
-- The main view, over the rectangle lists and the numbers of `rects`.
pub mod Rows
pub mod Main
pub mod Columns
pub mod Fits
