pub mod Answers
pub mod Lines
pub mod Manifests
pub mod steps
