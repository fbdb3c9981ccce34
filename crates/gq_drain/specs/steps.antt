pub mod Behind
pub mod Continued
pub mod Continuing
pub mod Copied
pub mod Given
pub mod Pushed
pub mod Taken
pub mod Walking
