-- What a pixel is by its rule; what a part of a row is made of; how parts make a row of a picture, and rows of a view; how many samples of
-- a row are filtered.
pub mod Rules
pub mod Shading
pub mod PictureParts
pub mod Filtered
pub mod ViewParts
