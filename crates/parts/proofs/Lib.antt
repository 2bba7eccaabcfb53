pub mod Parts
pub mod Counting
