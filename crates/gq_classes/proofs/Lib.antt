mod Growing
mod Inserting
mod Keys
mod Leading
mod Once
mod Paths
mod Reading
