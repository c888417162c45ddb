-- The definitions that the contracts of `rooms` cite.
pub mod Silences
pub mod Rooms
pub mod Points
pub mod Steps
