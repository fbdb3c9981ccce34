pub mod BoolLaws
pub mod ListFacts
pub mod ListLaws
pub mod OptionLaws
pub mod ResultLaws
pub mod RowLemmas
pub mod Texts
pub mod TruthLaws
