-- A view's number, where its rows start, and which views are alike.
-- A view's rows, and which rows are alike.
pub mod View
pub mod Starts
pub mod Alike
pub mod Rows
pub mod SameRow
pub mod Over
