-- The definitions that the contracts of `simulation` cite.
pub mod Steps
pub mod Simulation
