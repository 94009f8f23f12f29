-- Cited by Judge's contract: the checks of a table and its demands, which are what loading comes to.
pub mod Outcome
-- Cited by contracts that are private to Plan and Judge: no operation has them.
pub mod Lists
pub mod Room
