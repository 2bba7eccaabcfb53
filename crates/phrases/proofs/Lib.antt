pub mod Tokens
pub mod Runs
pub mod Begun
pub mod Following
pub mod Truths
