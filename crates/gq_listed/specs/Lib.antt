pub mod Finding
pub mod Flat
pub mod Keys
pub mod Leads
pub mod Listed
pub mod Windows
pub mod steps
