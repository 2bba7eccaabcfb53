pub mod Behind
pub mod Fields
pub mod Keeping
pub mod Reading
pub mod Productions
pub mod Lines
pub mod Storing
pub mod Calls
