pub mod Files
pub mod Cases
pub mod Claims
