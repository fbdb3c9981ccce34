pub mod Pool
pub mod Slots
pub mod Lending
pub mod steps
