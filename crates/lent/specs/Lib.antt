-- What a call leaves in lent buffers, and how it ends.
pub mod Paint
pub mod Samples
pub mod Spread
pub mod Pixels
pub mod Sizes
pub mod Refusal
pub mod Refused
pub mod Outcome
pub mod Counts
