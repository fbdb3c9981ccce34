pub mod OneQuery
pub mod OneStatus
pub mod Ordering
pub mod Quizzing
pub mod Running
pub mod Sequence
