-- The laws of the words in specs/: start at Format.antt and AnnexB.antt.
-- The laws of units.
pub mod Starts
pub mod Made
pub mod Written
pub mod Format
pub mod AnnexB
pub mod Worked
pub mod UnitLaws
