-- The laws of the C calls, for the crates that have one.
pub mod Calls
pub mod Fronts
pub mod Examples
