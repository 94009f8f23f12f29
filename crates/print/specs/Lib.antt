-- What a reader must believe of `print`.
pub mod Line
pub mod Print
pub mod Walk
pub mod Promises
