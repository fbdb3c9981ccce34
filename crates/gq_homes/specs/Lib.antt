pub mod Cuts
pub mod Homes
pub mod steps
