-- What the two conversions to RGBA answer and write.
pub mod Pictured
pub mod Picture
pub mod View
