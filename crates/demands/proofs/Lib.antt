-- The laws of `demands`, for its own proofs and for the crates above it.
pub mod Bytes
pub mod Lines
pub mod Promises
pub mod Examples
