-- Demand 3: what it says, the steps that it is about, and how the calls that run them end.
pub mod Agrees
pub mod Steps
pub mod Through
pub mod Both
