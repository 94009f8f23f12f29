-- What a reader must believe of every C call.
pub mod Call
