-- The laws of lists that the kit does not have.
pub mod Tests
pub mod First
pub mod Places
pub mod Distinct
pub mod Counts
pub mod Sums
pub mod Tally
pub mod Words
pub mod Ranges
pub mod Rising
pub mod Stores
