pub mod Answers
pub mod Effects
pub mod Files
pub mod Limits
pub mod Loads
pub mod Refusals
pub mod steps
