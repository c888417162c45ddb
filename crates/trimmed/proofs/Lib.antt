-- The laws that the proofs of the functions cite, and those of the refusal for callers.
pub mod Visits
pub mod Nodes
pub mod Faults
