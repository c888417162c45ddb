-- The laws of what is printed.
pub mod Decimal
pub mod Written
pub mod NumberTexts
pub mod Rows
pub mod Lines
pub mod Bound
pub mod Lists
pub mod Checks
