-- The definitions that the contracts of `connectivity` cite.
pub mod Answers
