pub mod Bags
pub mod Continued
pub mod Core
pub mod Cores
pub mod Reaches
pub mod Turned
