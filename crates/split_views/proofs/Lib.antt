-- What a row of the auxiliary view holds, case by case.
-- Which planes the chroma planes of the auxiliary view are.
pub mod Spots
pub mod Planes
