pub mod Boundaries
pub mod Digits
pub mod Lexing
pub mod Pieces
pub mod Sizes
pub mod Widths
pub mod Words
