pub mod Places
pub mod Walk
pub mod Back
pub mod Exact
pub mod Opened
pub mod Claims
pub mod Declined
