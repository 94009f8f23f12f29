-- What Plan's contract cites, beside its definition in deals/specs/Plan.antt.
pub mod Done
-- What the private contracts of `plans` cite.
pub mod Admission
