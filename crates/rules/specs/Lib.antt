pub mod World
pub mod Sides
pub mod Refusals
pub mod Commands
pub mod Step
pub mod Outcomes
