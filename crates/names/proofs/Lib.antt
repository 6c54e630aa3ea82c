pub mod Table
pub mod SameNames
pub mod Kept
