pub mod State
pub mod Located
