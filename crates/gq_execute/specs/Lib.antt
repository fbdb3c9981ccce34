pub mod Answering
pub mod Planned
pub mod Ready
pub mod Refusals
pub mod Replies
pub mod Spending
pub mod steps
