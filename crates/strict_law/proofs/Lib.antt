-- Demand 3 in the strict form, and the list of accepted calls.
pub mod Agree
pub mod History
