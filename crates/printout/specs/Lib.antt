pub mod Page
pub mod Inked
pub mod Parts
pub mod Digits
pub mod Lines
pub mod Text
pub mod Rows
