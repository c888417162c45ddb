-- The definitions that the contracts of `twins` cite.
pub mod Twins
