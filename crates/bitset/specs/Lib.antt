-- The definitions that the contracts of `bitset` cite.
pub mod Decides
pub mod Members
pub mod Families
