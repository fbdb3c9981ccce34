pub mod Cored
pub mod Staying
