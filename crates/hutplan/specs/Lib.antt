-- What a reader must believe of `hutplan`.
pub mod Input
pub mod Printed
pub mod Promises
