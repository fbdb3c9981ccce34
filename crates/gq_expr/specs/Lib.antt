pub mod FaultNames
pub mod Kinds
pub mod Meaning
pub mod Operators
pub mod Reading
pub mod Safety
pub mod steps
