-- The rules that make a pixel, and what the writers of a row ask of their callers.
pub mod Rules
pub mod Fits
