pub mod Coring
pub mod Ordering
pub mod Plain
pub mod PlainTyping
pub mod Reading
pub mod Shaping
mod WorkedCores
