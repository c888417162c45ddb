-- The definition that the contracts of `ordering` cite.
pub mod Ascended
