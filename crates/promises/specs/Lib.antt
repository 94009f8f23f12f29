-- What is promised of all operations.
pub mod Promises
