pub mod Asking
pub mod Levels
pub mod Listed
pub mod Looked
pub mod Making
pub mod Walks
