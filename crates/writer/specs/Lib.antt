-- The definitions that the contracts of `writer` cite.
pub mod Written
