-- Strict lists: start at Laws.antt, for a caller; Faults.antt has what a fault is, Log.antt the first unsound rectangle.
pub mod Faults
pub mod Number
pub mod Log
pub mod Ends
pub mod Laws
pub mod Inside
pub mod Worked
pub mod Searched
