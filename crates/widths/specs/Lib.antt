-- The definitions that the contracts of `widths` cite.
pub mod Widths
pub mod Counting
