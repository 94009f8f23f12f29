-- What a reader must believe of `schedules`.
pub mod Sizes
pub mod Text
pub mod Schedule
pub mod Call
pub mod Told
pub mod Written
pub mod Promises
-- Cited by contracts of private functions alone.
pub mod Nodes
