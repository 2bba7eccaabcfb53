pub mod Reasons
pub mod Code
pub mod Claims
