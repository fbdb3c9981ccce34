pub mod Characters
pub mod Lexemes
pub mod Numbers
pub mod Runs
pub mod Tokens
pub mod steps
