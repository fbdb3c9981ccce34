pub mod Asked
mod Choosing
pub mod Filling
mod Fronts
pub mod Gathered
mod Marked
pub mod Missing
mod Settling
mod Singles
pub mod Spent
pub mod Taking
