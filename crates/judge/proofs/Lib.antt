-- The laws of `judge`: the verdict from the passes over a room's lists, the checks, and the C call.
pub mod Judging
pub mod Admitting
pub mod Calling
