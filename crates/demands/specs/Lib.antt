-- What a reader must believe of `demands`.
pub mod Text
pub mod Reading
pub mod Promises
