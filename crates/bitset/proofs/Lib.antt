-- The laws of sets kept in numbers, each stated once for every width.
pub mod Members
pub mod Subsets
pub mod Size
pub mod Words
pub mod Sets
pub mod MemberList
pub mod Results
pub mod Scans
pub mod Going
pub mod Families
