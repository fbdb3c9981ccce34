mod Barred
mod Columns
mod Staying
mod Written
