-- Calls that hand back the number alone.
pub mod Numbers
pub mod StrictNumbers
