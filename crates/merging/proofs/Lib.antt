pub mod Examples
pub mod Faults
pub mod Ids
pub mod Merges
pub mod OneCommand
pub mod Places
pub mod Tables
pub mod Theorem
