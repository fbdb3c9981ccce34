pub mod Asking
pub mod Coding
