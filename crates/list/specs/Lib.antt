-- The definitions that the contracts of `list` cite.
pub mod Reading
