pub mod Alternatives
pub mod Candidates
pub mod Choices
pub mod Matches
pub mod Parted
pub mod Searching
pub mod Tested
