pub mod Looking
pub mod Scopes
