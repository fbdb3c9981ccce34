pub mod Words
pub mod Counts
pub mod Search
pub mod Ranks
