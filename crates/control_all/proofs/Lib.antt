-- Laws that the proofs of `control_all` share.
pub mod Turns
pub mod Lengths
pub mod Passes
pub mod Promises
