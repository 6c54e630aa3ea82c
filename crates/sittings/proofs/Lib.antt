pub mod Answers
pub mod Books
pub mod ByLine
pub mod Outputs
pub mod Pages
pub mod Room
pub mod Sitting
pub mod StandsWhole
