-- A 4:4:4 picture over three lent planes.
pub mod Sizes
pub mod New
