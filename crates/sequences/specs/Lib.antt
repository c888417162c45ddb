-- Words for lists.
pub mod Rising
pub mod Distinct
pub mod Counts
pub mod Words
