-- The stretches between changes, what the call's answer means, and networks for which it is alike.
pub mod Stretches
pub mod Meaning
pub mod Agree
