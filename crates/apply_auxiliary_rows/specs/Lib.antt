-- What an auxiliary view gives to a row of a chroma plane of the picture.
pub mod Rows
