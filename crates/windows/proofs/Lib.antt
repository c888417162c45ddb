-- The faults of windows and what they hold, and the times at which that changes.
pub mod Windows
pub mod Chunks
pub mod Times
