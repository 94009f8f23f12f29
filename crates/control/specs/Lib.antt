-- The definitions that the contracts of `control` cite.
pub mod Step
pub mod Judged
pub mod Call
pub mod Promises
