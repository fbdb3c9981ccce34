mod ByPlace
pub mod Finding
mod FlatGroups
mod Leading
mod ListedRows
mod Windowed
