-- The definitions that the contracts of `adjacency` cite.
pub mod Adjacency
