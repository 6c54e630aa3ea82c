pub mod Entries
pub mod Passwords
pub mod Located
