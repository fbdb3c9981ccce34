pub mod Groups
pub mod Layout
pub mod Order
pub mod Law
pub mod Keys
