-- The definitions that the contracts of `windows` cite.
pub mod Windows
pub mod Times
