-- What a reader must believe of `splits`: the split of an amount by weights, and what is promised of it.
pub mod Split
pub mod Ways
pub mod Promises
-- Cited by contracts that are private to Plan: no operation has them.
pub mod Serving
