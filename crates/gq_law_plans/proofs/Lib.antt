mod Choices
pub mod Counting
pub mod Covering
mod Demanded
mod Ends
pub mod Fields
pub mod Filled
pub mod Lookups
pub mod Made
pub mod Numbering
pub mod Owning
pub mod PlanCounts
pub mod Reordered
pub mod Sides
mod StepCounts
pub mod Wholes
pub mod Worked
mod WorkedParts
