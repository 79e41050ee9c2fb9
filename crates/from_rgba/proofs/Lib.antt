-- The laws of `from_rgba` and `from_rgba_rust`.
-- The two edge rules side by side.
-- One pass over a plane after the other.
-- The laws of averages: a pair of rows part by part, a plane pair by pair.
-- The laws of the edge: its columns, its rows, both rules.
-- The laws of the padding and of the converted pixels.
pub mod FromRgbaOutcome
pub mod BothEdges
pub mod Passes
pub mod Blocks
pub mod EdgeLaws
pub mod Padding
pub mod Converted
