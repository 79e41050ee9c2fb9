-- The laws of a row's columns and of a row's part that is lent, and from where the view feeds each kind.
-- What the view feeds of each kind of column, and that it is there to be read.
-- A row of either chroma plane when the part has come back.
pub mod Columns
pub mod Area
pub mod Sources
pub mod Feeds
pub mod Limits
pub mod Written
pub mod Cut
