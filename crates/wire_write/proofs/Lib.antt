-- The laws of the writer.
-- The laws of the stream writer.
-- The laws of the numbers.
pub mod Writing
pub mod Ends
pub mod Front
pub mod Stream
pub mod NumberLaws
pub mod Exactly
