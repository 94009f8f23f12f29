-- What a reader must believe of Plan, called from C.
pub mod Call
-- Cited by contracts of private functions alone.
pub mod Figures
