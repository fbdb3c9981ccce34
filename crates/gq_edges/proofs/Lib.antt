pub mod Seen
pub mod Ordered
