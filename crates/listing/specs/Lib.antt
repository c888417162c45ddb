-- The definitions that the contracts of `listing` cite.
pub mod List
pub mod Trimmed
