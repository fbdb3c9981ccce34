pub mod Shifts
pub mod Sorting
pub mod Members
pub mod Near
