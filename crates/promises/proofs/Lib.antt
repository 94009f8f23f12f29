-- The promises of all operations, proved.
pub mod Promises
