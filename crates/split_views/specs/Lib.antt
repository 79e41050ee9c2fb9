-- What the two views of a split hold, and what their writers ask of their callers.
-- A chroma plane of the auxiliary view, as it is written.
pub mod Views
pub mod Fits
pub mod Chroma
