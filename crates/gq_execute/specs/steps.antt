pub mod Answering
pub mod Clauses
pub mod Costing
pub mod Prepared
pub mod Testing
