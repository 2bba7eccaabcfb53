pub mod Truths
pub mod Rows
pub mod Testing
pub mod Evaluating
