pub mod Leading
pub mod Levels
pub mod Reaching
pub mod StandFor
pub mod Unseen
