pub mod DistinctSteps
pub mod ZipSteps
