-- The laws of Read and Write called from C: what the calls return and leave.
pub mod CallLaws
pub mod RoundTrip
pub mod Promises
