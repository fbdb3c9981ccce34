pub mod Numbers
pub mod Valid
mod Worked
