pub mod Calls
pub mod Judged
pub mod Listing
pub mod Told
