pub mod Leading
pub mod Alone
pub mod Masking
