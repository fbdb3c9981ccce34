pub mod Listed
pub mod Permuting
