pub mod Bars
pub mod Keeping
pub mod Sorting
pub mod Sure
