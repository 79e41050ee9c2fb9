-- Demand 3: start at Agree.antt, and for the map at Complete.antt.
pub mod Inside
pub mod Agree
pub mod Complete
pub mod Number
pub mod Calls
pub mod Ends
pub mod Unique
pub mod Alike
