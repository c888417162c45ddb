-- The list, in reading order: what the complete list is, the rows, the call.
pub mod Mincuts
pub mod Rows
pub mod LentOn
pub mod Refusals
pub mod Call
pub mod Meaning
pub mod Trimmed
pub mod Agree
