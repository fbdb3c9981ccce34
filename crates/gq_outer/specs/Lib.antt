pub mod Clauses
pub mod Placed
pub mod Rows
pub mod Shared
