pub mod Leaf
pub mod Running
