-- The definitions that the contracts of `generator` cite.
pub mod Generator
