pub mod Translation
pub mod Calls
pub mod Demand3
pub mod Cases
pub mod Claims
