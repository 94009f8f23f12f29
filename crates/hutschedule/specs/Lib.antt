-- What a reader must believe of `hutschedule`.
pub mod Printed
pub mod Promises
