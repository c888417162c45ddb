-- The search around one neighbour, and what still hangs on the sink, in reading order.
pub mod Parts
pub mod Hanging
