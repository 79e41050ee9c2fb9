-- The form of an H.264 payload, and its conversion to Annex B.
-- The units of an H.264 payload.
pub mod Format
pub mod AnnexB
pub mod Units
