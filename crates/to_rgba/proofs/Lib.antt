-- The laws of both conversions: what is written, which numbers are given exactly when, and how a call ends.
pub mod Pictured
pub mod Exactly
pub mod Ends
pub mod Picture
pub mod Alike
pub mod Unique
