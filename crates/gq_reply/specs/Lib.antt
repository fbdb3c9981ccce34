pub mod Arrows
pub mod ErrorLines
pub mod BindLines
pub mod Bindings
pub mod ReplyTexts
pub mod Replies
pub mod steps
