pub mod Card
pub mod Layout
pub mod Groups
pub mod Sound
pub mod Calls
pub mod Cases
pub mod Claims
