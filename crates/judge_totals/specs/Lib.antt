-- Cited by contracts that are private to Judge: no operation has them.
pub mod Totals
