pub mod Arrowed
pub mod Blanks
pub mod OneTone
pub mod Ready
pub mod Replying
pub mod SetValue
pub mod Spendings
pub mod Walkable
