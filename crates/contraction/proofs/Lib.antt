-- Ends that move, and what is connected where nodes are made one, in reading order.
pub mod Ends
pub mod Contraction
