-- The definitions that the contracts of `capi` cite.
pub mod Fields
