-- How the first that is wrong is found: by parts of any test, by parts of a row, and by the bits in which two bytes differ.
pub mod Firsts
pub mod Rows
pub mod Bits
pub mod Samples
