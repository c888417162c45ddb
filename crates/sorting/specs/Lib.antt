-- The definitions that the contracts of `sorting` cite.
pub mod Sorted
pub mod Parts
