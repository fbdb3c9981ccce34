pub mod Behind
pub mod Lanes
pub mod Numbers
pub mod Properties
pub mod steps
