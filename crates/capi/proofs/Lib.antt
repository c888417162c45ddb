-- What the border adds: a verdict by its numbers.
pub mod Judging
pub mod Rooms
