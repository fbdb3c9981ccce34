pub mod Effecting
pub mod Keeping
pub mod Naming
pub mod Rest
