-- The laws of a row that is lent to a writer and comes back.
pub mod Rows
