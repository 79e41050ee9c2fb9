-- Numbers over the boundary as the values that the crates below take, and how a call ends that answers a number alone.
pub mod Sizes
pub mod Made
pub mod Apply
pub mod Strict
