pub mod Sizes
pub mod Writing
pub mod Making
