-- Rows and their order, in reading order: rows, the steps of the sort, what sorted rows are.
pub mod Pairs
pub mod Spans
pub mod Splitting
pub mod Insertion
pub mod Sorting
pub mod Order
