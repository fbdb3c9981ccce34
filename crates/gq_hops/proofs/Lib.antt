mod Aiming
mod Following
mod Hopping
mod Marking
mod Owing
pub mod Reaching
mod Rounds
mod Searching
mod Sites
mod Sizing
mod Spreading
mod Walking
mod Weights
