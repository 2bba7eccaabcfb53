pub mod Window
pub mod Claims
