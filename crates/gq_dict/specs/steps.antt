pub mod Coding
pub mod Cut
pub mod Texts
