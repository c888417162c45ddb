-- The definitions that the contracts of `maintenance` cite.
pub mod Outage
