-- The reader's steps over plain values.
pub mod Operands
pub mod Outcomes
