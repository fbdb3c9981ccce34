pub mod LoadLines
pub mod Questions
pub mod Serving
pub mod Statuses
pub mod Claim
pub mod OneQuery
pub mod steps
