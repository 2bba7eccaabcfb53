pub mod Sizes
pub mod Groups
pub mod Small
pub mod Known
