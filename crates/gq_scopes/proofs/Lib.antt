pub mod Listing
pub mod NamingLemmas
pub mod RangeLemmas
pub mod Renumbered
pub mod ScopeLemmas
