pub mod Told
pub mod Lending
pub mod Acceptance
pub mod Storing
