-- The numbers of an AVC444 payload.
pub mod Fields
pub mod Kinds
