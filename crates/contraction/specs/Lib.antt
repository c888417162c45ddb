-- The definitions that the contracts of `contraction` cite.
pub mod Contracted
