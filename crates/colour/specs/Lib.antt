-- What the contracts of the crate say: whole numbers with floor division, and the colour rules.
pub mod Whole
pub mod Colour
pub mod Limited
pub mod Products
