pub mod Texts
pub mod Numerals
pub mod Cases
pub mod Claims
