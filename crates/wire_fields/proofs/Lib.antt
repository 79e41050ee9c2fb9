-- What shifts and masks mean, and that what is put back is what was taken out.
pub mod Fields
pub mod Bytes
pub mod KindLaws
