pub mod Rels
pub mod Rows
