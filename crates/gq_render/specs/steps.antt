pub mod Blocks
pub mod Escapes
pub mod Fronts
