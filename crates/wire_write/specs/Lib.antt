-- The payload as it is written.
-- A stream as its bytes.
-- The numbers of a call that writes a payload.
pub mod Writing
pub mod Stream
pub mod Number
