pub mod PathPatterns
pub mod Patterns
pub mod Renumbering
pub mod Scopes
pub mod steps
