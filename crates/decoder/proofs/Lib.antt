pub mod Decoding
pub mod Coded
