pub mod Lines
pub mod Grammar
pub mod Calls
pub mod Cases
pub mod Claims
