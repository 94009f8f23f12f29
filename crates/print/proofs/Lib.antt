-- The laws of `print`, for its own proofs and for the crates above it.
pub mod Putting
pub mod Digits
pub mod Turns
pub mod Room
pub mod Size
pub mod Promises
