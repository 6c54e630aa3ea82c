pub mod Bytes
pub mod Permutations
pub mod Loops
pub mod Undoing
pub mod Kept
