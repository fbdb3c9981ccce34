pub mod Cuts
pub mod LineTexts
pub mod Whole
pub mod WordLists
