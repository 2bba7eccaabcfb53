pub mod Checking
pub mod Told
