pub mod Cells
pub mod Rows
pub mod Lines
pub mod Exported
