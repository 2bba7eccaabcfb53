pub mod Output
pub mod Promise
pub mod Cases
pub mod Claims
