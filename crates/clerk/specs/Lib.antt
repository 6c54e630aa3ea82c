pub mod Filled
pub mod Heard
pub mod Replies
pub mod Spoken
pub mod Told
pub mod Wrong
