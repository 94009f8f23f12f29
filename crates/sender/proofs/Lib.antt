-- The laws of `sender`.
pub mod Periods
pub mod Outcomes
pub mod Calls
pub mod Promises
pub mod Examples
