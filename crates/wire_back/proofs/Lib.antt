-- The two theorems, bytes as numbers, and a payload read and written again.
pub mod Numbers
pub mod Written
pub mod Rewritten
pub mod Again
