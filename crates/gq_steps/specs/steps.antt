pub mod Hops
pub mod Lists
pub mod Outcomes
