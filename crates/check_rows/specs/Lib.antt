-- A row of a view beside what a split has there, and which samples of a row of the picture that is.
pub mod Rows
