pub mod Notary
pub mod Example
