pub mod Conjuncts
pub mod Depths
pub mod Places
pub mod Trees
pub mod Uses
