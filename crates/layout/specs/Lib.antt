-- Where chroma samples live in the auxiliary view, and which exist.
pub mod Maps
pub mod Exists
pub mod Fed
