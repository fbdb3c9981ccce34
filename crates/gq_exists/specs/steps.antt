pub mod Gathered
pub mod Inner
pub mod Levels
pub mod Rows
pub mod Running
pub mod Settled
pub mod Stored
