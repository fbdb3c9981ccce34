pub mod Masks
pub mod steps
