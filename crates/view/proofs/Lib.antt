-- The numbers, exactly when; where rows start; the one way in which a view is made.
-- The rows; rows of views that are alike; the one way in which each call ends.
pub mod Exactly
pub mod Starts
pub mod Unique
pub mod RowLaws
pub mod RowsAlike
pub mod RowsUnique
pub mod Over
