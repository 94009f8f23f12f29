-- What a reader must believe of `part`: a room parted in two, what Part comes to, its C call, and what is promised.
pub mod Parted
pub mod Crossing
pub mod Outcome
pub mod Call
pub mod Promises
-- Cited by contracts of private functions alone.
pub mod Sides
