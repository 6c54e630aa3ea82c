pub mod Copied
pub mod Kept
