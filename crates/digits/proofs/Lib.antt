pub mod Spells
pub mod Numbers
pub mod Written
