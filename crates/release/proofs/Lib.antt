-- The laws of `release`.
pub mod Marks
pub mod Examples
