pub mod FewReads
pub mod Reads
pub mod Places
pub mod Rows
pub mod Times
