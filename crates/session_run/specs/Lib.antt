pub mod CommandLines
pub mod Jobs
pub mod Replies
pub mod ReplyText
pub mod Keeping
pub mod OwnLines
pub mod Conversation
pub mod Serving
