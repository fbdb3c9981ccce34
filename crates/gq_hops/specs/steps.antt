pub mod Aims
pub mod Hops
pub mod Inner
pub mod Marks
pub mod Nears
pub mod Reaches
pub mod Searches
pub mod Sizes
