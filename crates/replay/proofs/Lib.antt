-- The events of a log and their faults, what the call's answer means, the steps of the code, and networks for which logs play back alike.
pub mod Events
pub mod Meaning
pub mod Steps
pub mod Agree
