-- The laws of `splits`.

-- A split worked by hand: the definition alone.
pub mod WorkedSplit
-- Any amount and weights, and the promises.
pub mod Splits
pub mod Ways
pub mod Promises
-- Children served in turn, in lists.
pub mod Serving
