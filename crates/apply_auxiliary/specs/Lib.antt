-- The auxiliary views in the picture, and what a V2 call was before W had rules.
pub mod Auxiliary
pub mod Before
