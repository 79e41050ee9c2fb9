-- The laws of a picture's sizes and of the calls that make one.
pub mod Sizes
pub mod Calls
pub mod NewOutcome
