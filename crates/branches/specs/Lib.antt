-- The definitions that the contracts of this crate, of `enumeration` and of `filling` cite.
pub mod Enumeration
pub mod Lists
