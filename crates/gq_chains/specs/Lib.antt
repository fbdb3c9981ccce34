pub mod Among
pub mod steps
