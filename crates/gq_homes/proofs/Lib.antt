pub mod Brings
pub mod Brought
pub mod Cutting
pub mod Homing
