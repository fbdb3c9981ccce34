pub mod Cuts
pub mod Plain
pub mod Shaped
pub mod Typing
