-- Rectangle lists with their widened areas, and the numbers of the apply calls.
pub mod Rects
pub mod Number
