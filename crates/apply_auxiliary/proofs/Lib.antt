-- The loop over an area's rows, the laws that a caller leans on, what each rule of V2 says, and the lines worked by hand.
pub mod Taken
pub mod Ends
pub mod Laws
pub mod Before
pub mod Worked
