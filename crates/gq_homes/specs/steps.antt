pub mod Cutting
pub mod Housing
