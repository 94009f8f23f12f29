-- The laws of `schedules`, for its own proofs and for the crates above it.
pub mod SizeLaws
pub mod NumberLaws
pub mod LineLaws
pub mod LineLoop
pub mod TableLaws
pub mod RoomTable
pub mod ReadsText
pub mod WritesText
pub mod FirstBytes
pub mod Answers
pub mod Promises
