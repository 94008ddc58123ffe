pub mod Requests
pub mod Replies
pub mod ReplyBytes
pub mod Texts
pub mod Views
pub mod Apart
