-- What a reader must believe of every operation's outcome, and of every part of a table or text that is read.
pub mod Outcome
pub mod Part
