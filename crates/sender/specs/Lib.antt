-- What a reader must believe of `sender`.
pub mod Period
pub mod Outcome
pub mod Call
pub mod Promises
