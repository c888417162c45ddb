-- The bytes of a network, read and written.
pub mod Format
pub mod Meaning
