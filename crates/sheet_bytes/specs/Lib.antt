-- What a reader must believe of Read and Write, called from C.
pub mod Call
pub mod Promises
