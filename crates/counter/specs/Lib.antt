pub mod Holds
pub mod Input
pub mod Kept
pub mod Line
pub mod Service
pub mod Whole
