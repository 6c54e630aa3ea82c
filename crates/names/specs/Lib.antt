pub mod Names
pub mod FirstWord
