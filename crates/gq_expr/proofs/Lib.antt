pub mod Equations
pub mod KindEquations
pub mod Occurs
pub mod Promise
pub mod Summaries
pub mod Testers
