-- Sets as rows.
pub mod Beside
