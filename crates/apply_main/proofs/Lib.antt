-- What one row of the main view does to a plane.
-- The laws of the words in specs/: start at Main.antt. Those of lists and numbers are in `rects`.
pub mod RowLaws
pub mod RectRows
pub mod Main
pub mod MainLaws
pub mod OddEdge
