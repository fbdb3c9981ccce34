pub mod Integers
pub mod Numbered
