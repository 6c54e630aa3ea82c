pub mod Ids
pub mod Demand3
pub mod Tables
pub mod OneCommand
pub mod Theorem
pub mod Examples
pub mod Faults
