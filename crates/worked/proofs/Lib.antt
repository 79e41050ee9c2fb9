-- The theorem over the table.
pub mod Right
