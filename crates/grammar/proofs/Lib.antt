pub mod Noting
pub mod Chain
pub mod Tests
