pub mod Number
pub mod Followed
pub mod Sheet
pub mod Promises
