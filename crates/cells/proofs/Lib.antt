pub mod Cells
pub mod Valid
pub mod Told
