-- The laws of the total.
pub mod Totals
