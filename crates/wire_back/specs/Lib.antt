-- What was written, read; and what was read, written.
pub mod Back
