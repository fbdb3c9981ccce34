pub mod Bindings
pub mod Safe
pub mod Sides
