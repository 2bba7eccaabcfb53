pub mod Counting
pub mod Signs
pub mod Words
pub mod Firsts
pub mod Lengths
pub mod Lexing
