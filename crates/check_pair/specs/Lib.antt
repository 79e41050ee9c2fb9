-- What a check of two views answers: its number, its verdict, and the first wrong sample by the order of the places.
-- A row of a view, as the code looks at it.
pub mod Number
pub mod Verdict
pub mod Checked
pub mod Places
pub mod Rows
