pub mod Asks
pub mod Candidates
pub mod Differing
pub mod EdgeTests
pub mod Filters
pub mod Numbers
pub mod Parts
pub mod RowTests
