pub mod Branches
pub mod Limits
pub mod Narrowed
pub mod NarrowedByOne
pub mod SearchSteps
pub mod Searches
