-- How far a colour can be off, in samples of chroma and in channels.
pub mod Off
pub mod Shown
