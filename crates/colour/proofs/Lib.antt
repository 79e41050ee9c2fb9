-- The laws that the proofs of the functions cite, and those that a reader or a caller looks for: Floor, Clamp, Bytes.
pub mod Whole
pub mod Floor
pub mod Formulas
pub mod LimitedLaws
pub mod Shares
pub mod Clamp
pub mod Filtering
pub mod Bytes
