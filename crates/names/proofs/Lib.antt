pub mod Published
pub mod Notes
pub mod Placing
