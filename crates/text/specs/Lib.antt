-- The definitions that the contracts of `text` cite.
pub mod Ascii
pub mod Text
pub mod Written
