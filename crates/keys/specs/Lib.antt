pub mod Keys
pub mod Examples
