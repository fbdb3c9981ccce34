pub mod Held
pub mod Made
pub mod Spending
pub mod steps
