-- The laws of `words`, for its own proofs and for the crates above it.
pub mod Bytes
pub mod Examples
