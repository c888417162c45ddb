-- The steps of the enumeration over plain values, in reading order.
pub mod Filling
pub mod Putting
pub mod Halves
pub mod First
