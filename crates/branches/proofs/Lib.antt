-- The enumeration of source sides, in reading order.
pub mod ReachIn
pub mod Part
pub mod Branches
pub mod Halves
pub mod Recursion
pub mod Rows
pub mod Complete
pub mod Lists
