pub mod Checked
mod Parted
pub mod Unnamed
