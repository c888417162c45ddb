-- The definitions that the contracts of `filling` cite.
pub mod Filled
