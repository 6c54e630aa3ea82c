pub mod Answers
pub mod ByLine
pub mod Sitting
pub mod Outputs
pub mod Room
