pub mod Opened
pub mod Computed
pub mod Runs
pub mod Digits
pub mod Reading
pub mod Numerals
