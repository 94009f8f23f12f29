-- The laws of `hutschedule`.
pub mod Prints
pub mod Promises
