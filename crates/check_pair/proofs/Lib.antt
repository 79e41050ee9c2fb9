-- The numbers of a check, exactly when.
-- The order of the places; what the verdict on a plane says; the first wrong sample of a pair; what an answer says.
-- Yes exactly where both views are alike with the split's; a row of a view as the code looks at it, and the walk over them; a few checks by hand.
pub mod Exactly
pub mod Order
pub mod OnePlane
pub mod First
pub mod Answer
pub mod Yes
pub mod Lines
pub mod Walk
pub mod Parts
pub mod Worked
