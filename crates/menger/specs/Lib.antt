-- The words of Menger's theorem, and the tests of the starred halls.
pub mod Separate
pub mod Tests
