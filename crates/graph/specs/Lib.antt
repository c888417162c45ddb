-- The definitions of graph theory that the contracts of `graph` cite.
pub mod Paths
pub mod Cuts
pub mod Lists
pub mod SourceSides
pub mod Reach
pub mod CutTests
pub mod Relevant
