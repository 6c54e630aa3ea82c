pub mod Cut
pub mod Shown
pub mod InTurn
