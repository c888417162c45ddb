-- The demands, how each call ends, what holds of loops, of metres, of trunks, of several rooms, of logs, of works, of drills and of separate
-- ways, what earlier plans keep, and the table of the starred halls.
pub mod Endings
pub mod Demands
pub mod Alike
pub mod Loops
pub mod Lengths
pub mod Trunks
pub mod Trimmed
pub mod Rooms
pub mod Replay
pub mod Works
pub mod Drills
pub mod SeparateWays
pub mod Kept
pub mod Halls
