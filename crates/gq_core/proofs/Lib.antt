mod Coring
pub mod Counts
pub mod Plain
mod Same
pub mod Whole
