-- Demand 3 in the strict form: the calls that it is about.
pub mod Walk
