-- The definitions that the contracts of `network` cite, and the words for the ends of an edge.
pub mod Refusals
pub mod Record
pub mod Rules
pub mod Ends
