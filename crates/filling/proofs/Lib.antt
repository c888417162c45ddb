-- The laws that the proofs of the functions cite, in reading order.
pub mod Onto
pub mod Filled
