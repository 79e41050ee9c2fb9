-- The laws of the words in specs/.
pub mod Rects
pub mod Number
