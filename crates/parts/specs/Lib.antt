pub mod Parts
pub mod Code
