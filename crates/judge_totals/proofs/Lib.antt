-- The laws of `judge_totals`: a search, what is noted on nodes, the turns of the loops that note it, and the walk over the cords.
pub mod Searching
pub mod Noted
pub mod Noting
pub mod Walking
