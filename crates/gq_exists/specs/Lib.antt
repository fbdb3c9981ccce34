pub mod Different
pub mod Made
pub mod Spending
pub mod steps
