pub mod Judged
pub mod Reading
