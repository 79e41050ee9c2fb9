-- What a list of calls says of the map.
pub mod History
