-- Lists for several rooms, in reading order: the rooms, the sets, the code's steps over plain values, the calls and what they mean.
pub mod Packages
pub mod Sets
pub mod Steps
pub mod Refusals
pub mod Calls
pub mod Meaning
pub mod Agree
