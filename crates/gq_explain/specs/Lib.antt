pub mod Costs
pub mod Plans
pub mod Schema
