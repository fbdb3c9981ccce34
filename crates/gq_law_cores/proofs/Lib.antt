mod Entries
mod Judging
pub mod Making
pub mod Starting
pub mod Walked
pub mod Whole
mod WorkedWhole
