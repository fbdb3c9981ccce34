pub mod Ranked
pub mod Flagged
pub mod Filled
