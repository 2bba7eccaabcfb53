pub mod Cards
pub mod Spread
pub mod Writing
pub mod Nots
