pub mod Cut
pub mod InTurn
pub mod Room
pub mod Shown
pub mod Spelled
pub mod Once
pub mod Seventeen
pub mod Kept
