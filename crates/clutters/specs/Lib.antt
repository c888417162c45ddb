-- The definitions that the contracts of `clutters` cite.
pub mod Clutters
pub mod Steps
