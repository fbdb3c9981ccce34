pub mod Grammar
pub mod Outcomes
pub mod RefusalNames
pub mod Refusals
pub mod Spans
pub mod Trees
pub mod steps
