pub mod Answers
pub mod Chunks
pub mod Forms
pub mod Parts
pub mod Tables
pub mod steps
