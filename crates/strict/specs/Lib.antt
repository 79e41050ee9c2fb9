-- Sound rectangles, the first one of a list that is not, and how the strict apply calls end.
pub mod Sound
pub mod Calls
pub mod Found
