pub mod Answers
pub mod Cells
pub mod Keys
pub mod Nodes
pub mod Records
pub mod Rels
pub mod Tables
pub mod steps
