-- What a reader must believe of `join`: the room of two, what Join comes to, its C call, and what is promised.
pub mod Joined
pub mod Outcome
pub mod Call
pub mod Promises
-- Cited by contracts of private functions alone.
pub mod Pieces
pub mod Huts
