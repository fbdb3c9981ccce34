pub mod FieldLaws
pub mod HeaderSteps
