pub mod BindLines
pub mod Steps
pub mod Gaps
