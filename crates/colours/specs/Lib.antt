-- What the program writes.
pub mod Digits
pub mod Text
