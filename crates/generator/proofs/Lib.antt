-- The product by halves, and draws.
pub mod Halves
pub mod Draws
