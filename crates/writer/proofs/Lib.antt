-- The writer's steps over plain values.
pub mod Encoding
pub mod Written
