-- The numbers worked by hand, as one table.
pub mod Worked
