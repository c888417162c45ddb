-- The definitions that the contracts of `node_set` cite.
pub mod Width
