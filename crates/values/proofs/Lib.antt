pub mod Numbers
pub mod Rows
pub mod Ranging
pub mod Judged
