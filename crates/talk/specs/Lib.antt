pub mod Replies
pub mod Who
pub mod Help
