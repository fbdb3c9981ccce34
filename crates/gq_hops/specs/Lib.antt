pub mod Law
pub mod Levels
pub mod Reaching
pub mod States
pub mod Walking
pub mod steps
