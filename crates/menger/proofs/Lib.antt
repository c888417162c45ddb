-- Menger's theorem, a notion to a file, in reading order.
pub mod Bounds
pub mod Ways
pub mod Flows
pub mod Augmenting
pub mod Peeling
pub mod Menger
pub mod Tests
