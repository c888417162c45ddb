-- The definitions that the contracts of `trimmed` cite.
pub mod Trimmed
pub mod Visits
