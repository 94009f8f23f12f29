-- The laws of outcomes and of parts, for the crates above.
pub mod Outcomes
pub mod Parts
