-- The laws of twins.
pub mod Twins
