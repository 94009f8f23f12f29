-- The laws of `hutplan`.
pub mod Inputs
pub mod Prints
pub mod Fits
pub mod Promises
pub mod WorkedRooms
