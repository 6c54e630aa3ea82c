mod Parity
mod Texts
mod Blocks
pub mod Promise
pub mod Determined
mod Kept
