pub mod Meanings
pub mod PlaceEquations
pub mod PlaceLemmas
pub mod Verdicts
