pub mod Cells
pub mod steps
