pub mod Becoming
pub mod Prepared
pub mod Taking
pub mod Testing
pub mod steps
