pub mod Sample
pub mod Questions
