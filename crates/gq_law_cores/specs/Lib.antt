pub mod Entries
pub mod Made
pub mod Typing
pub mod Walking
pub mod Whole
