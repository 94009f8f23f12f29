-- Laws of sums, of lists of figures, of lists that code fills, of the cells of rows.
pub mod Sums
pub mod Lists
pub mod Filled
pub mod Cells
-- Tests.
pub mod Tests
-- Stores into lists, fronts that are lent, bounded numbers and the search for one that is not below its bound, credits.
pub mod Stores
pub mod Fronts
pub mod Bounds
pub mod Search
pub mod Credits
