-- The steps of a drill, its laws, what the call's answer means, and networks for which it is alike.
pub mod Steps
pub mod Laws
pub mod Meaning
pub mod Agree
