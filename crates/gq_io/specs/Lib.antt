pub mod Causes
pub mod Held
pub mod InMemory
pub mod Outside
pub mod Putting
pub mod Reading
pub mod steps
