-- The laws that the proofs of the functions cite, and what a spread over a table reaches.
pub mod Filling
pub mod Leaving
pub mod Reaching
