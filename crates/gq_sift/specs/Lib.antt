pub mod Remembered
pub mod Tested
pub mod steps
