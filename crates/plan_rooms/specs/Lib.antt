-- Cited by contracts that are private to Plan: no operation has them.
pub mod Planning
