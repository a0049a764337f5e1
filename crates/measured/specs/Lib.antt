pub mod Replies
pub mod Begin
