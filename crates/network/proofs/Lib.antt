-- The theory of the record.
pub mod Refusals
pub mod Slots
pub mod Rules
pub mod Numbers
pub mod Ends
pub mod Sets
