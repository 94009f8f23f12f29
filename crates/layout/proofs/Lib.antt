-- The laws of `layout`.
pub mod Spare
pub mod Rows
pub mod Carrying
pub mod Loading
pub mod Loads
