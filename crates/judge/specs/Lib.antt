-- What a reader must believe of Judge, beside the verdict (deals/specs/Judge.antt): its refusals, its answer and its C call.
pub mod Outcome
pub mod Call
-- Cited by contracts of private functions alone.
pub mod Lists
