-- The laws of the AVC444 payload.
-- The laws of the parts.
pub mod Reading
pub mod Exactly
pub mod Format
pub mod PartLaws
pub mod Covered
pub mod PartsExactly
