-- The definitions that the contracts of `parts` cite.
pub mod Parts
