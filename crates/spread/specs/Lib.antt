-- The definitions that the contracts of `spread` cite.
pub mod Spread
