pub mod Once
pub mod Order
