-- The definitions that the contracts of `enumeration` cite.
pub mod Tables
pub mod Capacity
pub mod Rows
