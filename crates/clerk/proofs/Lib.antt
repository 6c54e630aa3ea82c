pub mod Kept
pub mod Pages
