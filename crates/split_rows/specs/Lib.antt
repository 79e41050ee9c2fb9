-- What the row writers ask of their callers, the rows as if they went on, and the pairs that the writers go through.
pub mod Fits
pub mod Seen
pub mod Pairs
