-- What the map says of the calls: start at History.antt.
pub mod History
pub mod Plainly
pub mod Accepted
