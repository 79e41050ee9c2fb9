-- What a split answers and writes, and what an accepted one has.
-- What number a split answers, and with what sizes; what a refused one answers. What a split was before V2 had rules.
pub mod Split
pub mod Accepted
pub mod Number
pub mod Refused
pub mod Before
