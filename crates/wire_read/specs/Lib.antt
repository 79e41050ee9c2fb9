-- The AVC444 payload: as it is read, and as it is put together.
-- The parts of a stream of an AVC444 payload.
pub mod Reading
pub mod Format
pub mod Parts
