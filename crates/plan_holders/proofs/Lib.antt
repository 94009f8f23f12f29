-- The rows of holders, and that the holders named from them are a deal's.
pub mod Rows
pub mod Naming
