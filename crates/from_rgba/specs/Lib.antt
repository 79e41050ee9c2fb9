-- A picture from RGBA pixels.
-- The averages of a plane's blocks.
-- The padding before the averages.
-- The rows of a picture that is made from RGBA pixels.
pub mod FromRgba
pub mod Averaged
pub mod Edges
pub mod Rows
