pub mod Letters
pub mod Split
