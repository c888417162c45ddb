-- The laws that the proofs of the functions cite, and what the answers of the calls say.
pub mod Nodes
pub mod Answers
pub mod Agree
