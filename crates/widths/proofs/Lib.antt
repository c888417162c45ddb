-- The laws of widths.
pub mod Pairs
pub mod Leading
pub mod WidthTable
pub mod Counting
pub mod Answers
pub mod Agree
