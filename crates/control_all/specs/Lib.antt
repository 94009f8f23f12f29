-- The definitions that the contracts of `control_all` cite.
pub mod Pass
pub mod Fitting
pub mod Call
pub mod Promises
