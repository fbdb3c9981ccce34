pub mod Bounded
pub mod Copied
pub mod Counts
pub mod Moved
pub mod Waiting
