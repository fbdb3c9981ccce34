pub mod Adding
pub mod Answers
pub mod Missing
pub mod Tests
