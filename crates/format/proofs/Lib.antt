-- The theory of the bytes.
pub mod Commands
pub mod Steps
pub mod Walk
pub mod Reading
pub mod Writing
pub mod Prefix
pub mod Longest
