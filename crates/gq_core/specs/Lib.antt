pub mod Cored
pub mod Entries
pub mod Renumbering
pub mod steps
